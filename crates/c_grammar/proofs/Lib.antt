-- The regroupings at each rule, what they say of whole trees and texts, and the test that the next token decides.
pub mod Spelling
pub mod Decides
pub mod Regroup
pub mod AsWritten
pub mod AsFactored
pub mod Joins
pub mod Agree
pub mod Example
