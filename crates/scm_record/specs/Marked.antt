-- How many lines of a state are marked.
pub use Rattle.scm_layout.specs.Marked.{checked_lines}
