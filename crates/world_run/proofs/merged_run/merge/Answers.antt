-- Each history can be merged, and all are those of the desks.
use Rattle.std.proofs.Common.{slice_index_or}
use Rattle.world_run.proofs.merged_run.merge.Goals as goal

pub merge_histories-requires : goal.merge_histories-requires
merge_histories-requires c = λ k d within. (slice_index_or c.as_slice.result.now k d).readable.rises
