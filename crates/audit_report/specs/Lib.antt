pub mod Key
pub mod Audit
pub mod AuditExamples
pub mod Compare
pub mod CompareExamples
