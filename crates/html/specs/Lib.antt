-- Fragments and how they are written, that names and values add no markup, the tables of a protocol,
-- and the style.
pub mod Fragment
pub mod Markup
pub mod Tables
