-- Texts side by side on a row.
pub mod TextLemmas
-- A screen with a changed row.
pub mod RowLemmas
-- Owners.
pub mod OwnerLemmas
-- On all columns of a screen rows are their strips.
pub mod InlineLemmas
-- Columns that are held at the greatest number that the machine counts.
pub mod CountedLemmas
