-- What a grammar is, what can be said of a text, and reading by the next token.
pub mod Grammar
pub mod FirstFault
pub mod Lookahead
pub mod Sample
pub mod Reading
pub mod Loop
pub mod Automaton
