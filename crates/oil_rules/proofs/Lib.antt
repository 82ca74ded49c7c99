pub mod Firsts
pub mod Numbers
pub mod NameSets
pub mod Least
