-- The text of certificates: tokens, the format, the plain text, and what readers answer.
pub mod Words
pub mod Certificate
pub mod CertificateText
pub mod Texts
pub mod Verdicts
pub mod Parts
pub mod IsCertificate
pub mod Answers
