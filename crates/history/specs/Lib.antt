-- believed
pub mod Past
pub mod Items
pub mod Frames
-- from a start: living by living_are, alive_once
pub mod Handles
pub mod Capacities
pub mod Buffers
pub mod Thread
pub mod Lives
pub mod Below
pub mod Stated
pub mod Identified
-- from a start: identity_of by identity_is
pub mod Identities
pub mod Paper
pub mod Order
-- from a start: refusal by refusal_is, heard_accepted
pub mod Acceptance
pub mod Accepted
pub mod Refusals
pub mod Replies
pub mod Runs
pub mod Report
pub mod Sentences
pub mod Kinds
pub mod Leaks
-- believed of any tables
-- from a start: super_of, leads by leads_are
pub mod Classes
-- from a start: class_stated by class_is
pub mod Statements
-- from a start: seen by told_all
pub mod Seen
pub mod Breaches
-- from a start: findings, of_line by findings_are, findings_ordered, told_all
pub mod Findings
pub mod Times
pub mod Verdicts
pub mod LeakOrder
-- words
pub mod Whole
pub mod Changes
pub mod Same
pub mod Cut
pub mod Families
pub mod Bounds
