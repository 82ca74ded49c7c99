-- The grammar of the C profile: its words and marks, as it is written, factored, and how the trees of both go into each other.
pub mod Symbols
pub mod Written
pub mod Factored
pub mod Regrouping
pub mod Trees
pub mod Next
