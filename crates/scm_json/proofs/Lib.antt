-- leaves, lists and objects that are read from tokens
pub mod TokenLemmas
-- the forms of a state that are read from tokens
pub mod FormLemmas
