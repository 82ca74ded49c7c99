pub mod EntityCodes
pub mod LoweredCode
pub mod Ready
pub mod Zeros
