pub mod Accepting
pub mod Answering
pub mod Fitting
pub mod Spacing
