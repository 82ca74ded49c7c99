-- The proofs of the laws, and the lemmas that readers cite: Turns, Laws, Loops, Automaton.
pub mod Sets
pub mod Sound
pub mod Complete
pub mod Turns
pub mod Outcomes
pub mod Laws
pub mod Answered
pub mod Loops
pub mod Automaton
pub mod Example
pub mod CountExample
