-- Laws that the proofs of `negotiation::audit_log` alone cite.
--     AuditLogLaws      what an audit of joined nets answers: by what its log came to, after the test of its sinks
-- Assumes nothing.
pub mod AuditLogLaws
