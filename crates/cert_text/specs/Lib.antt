-- The text of a certificate: its parts, the whole, and how it is appended to a file.
pub mod Parts
pub mod CertificateParts
pub mod CertificateText
pub mod Spills
