-- What is read of a whole, from what is read of its parts.
use Rattle.std.proofs.Common.{◌≡◌, ◌≢◌, Err, refl}
use Rattle.refutation_log.specs.declared.line_error.LineError.{LineError}
use Rattle.refutation_log.specs.declared.line_error.LineError.TheVariants as errors
use Rattle.refutation_log.specs.LineParts.{IsReading}

-- y is a spelling where x is one, of a value that is in range with that of x
pub record IsPartOf {A B X Y : Type 0} (f : A → X) (InA : A → Type 0) (x : X) (g : B → Y) (InB : B → Type 0) (y : Y) : Type 0 where
  pub part : (b : B) → y ≡ g b → (a : A) × (x ≡ f a) × (InB b → InA a)
  pub whole : (a : A) → x ≡ f a → (b : B) × (y ≡ g b) × (InB b → InA a)

-- a error of the part is one of the whole
pub error_of_whole : {A B X Y : Type 0} (f : A → X) (InA : A → Type 0) (x : X) (g : B → Y) (InB : B → Type 0) (y : Y) (error : LineError)
    → IsPartOf f InA x g InB y → IsReading f InA x (Err error) → IsReading g InB y (Err error)
error_of_whole f InA x g InB y errors.Form h read = λ b e. let a = h.part b e in read a.0 a.1
error_of_whole f InA x g InB y errors.Number h read = let b = h.whole read.0 read.1 in (b.0, b.1, λ good. read.2 (b.2 good))
error_of_whole f InA x g InB y errors.NoMemory h read = tt

-- z is a spelling where x and y are, of a value that is in range with both of theirs
pub record IsJoined {A B C X Y Z : Type 0} (f : A → X) (InA : A → Type 0) (x : X) (g : B → Y) (InB : B → Type 0) (y : Y) (h : C → Z) (InC : C → Type 0) (z : Z) : Type 0 where
  pub parts : (c : C) → z ≡ h c → (a : A) × (b : B) × (x ≡ f a) × (y ≡ g b)
  pub whole : (a : A) (b : B) → x ≡ f a → y ≡ g b → (c : C) × (z ≡ h c) × (InC c → InA a × InB b)

-- a error of the first part that is no bad number is one of the whole
pub error_of_first : {A B C X Y Z : Type 0} (f : A → X) (InA : A → Type 0) (x : X) (g : B → Y) (InB : B → Type 0) (y : Y) (h : C → Z) (InC : C → Type 0) (z : Z) (error : LineError)
    → IsJoined f InA x g InB y h InC z → error ≢ errors.Number → IsReading f InA x (Err error) → IsReading h InC z (Err error)
error_of_first f InA x g InB y h InC z errors.Form joined other read = λ c e. let p = joined.parts c e in read p.0 p.2
error_of_first f InA x g InB y h InC z errors.Number joined other read = absurd (other refl)
error_of_first f InA x g InB y h InC z errors.NoMemory joined other read = tt

-- where the first part is spelled, a error of the second is one of the whole
pub error_of_second : {A B C X Y Z : Type 0} (f : A → X) (InA : A → Type 0) (x : X) (g : B → Y) (InB : B → Type 0) (y : Y) (h : C → Z) (InC : C → Type 0) (z : Z) (error : LineError) (a : A)
    → IsJoined f InA x g InB y h InC z → x ≡ f a → IsReading g InB y (Err error) → IsReading h InC z (Err error)
error_of_second f InA x g InB y h InC z errors.Form a joined spelled read = λ c e. let p = joined.parts c e in read p.1 p.3
error_of_second f InA x g InB y h InC z errors.Number a joined spelled read =
    let c = joined.whole a read.0 spelled read.1 in (c.0, c.1, λ good. read.2 (c.2 good).1)
error_of_second f InA x g InB y h InC z errors.NoMemory a joined spelled read = tt

-- where the second part is spelled, a bad number of the first is one of the whole
pub number_of_first : {A B C X Y Z : Type 0} (f : A → X) (InA : A → Type 0) (x : X) (g : B → Y) (InB : B → Type 0) (y : Y) (h : C → Z) (InC : C → Type 0) (z : Z) (b : B)
    → IsJoined f InA x g InB y h InC z → IsReading f InA x (Err errors.Number) → y ≡ g b → IsReading h InC z (Err errors.Number)
number_of_first f InA x g InB y h InC z b joined read spelled =
    let c = joined.whole read.0 b read.1 spelled in (c.0, c.1, λ good. read.2 (c.2 good).0)
