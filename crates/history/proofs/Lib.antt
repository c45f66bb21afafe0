pub mod Sentences
pub mod Tests
pub mod Counts
pub mod Order
pub mod Threads
pub mod Acts
pub mod Changes
pub mod Living
pub mod OneMore
pub mod Arguments
pub mod Buffers
pub mod Families
pub mod After
pub mod Places
pub mod Breaches
pub mod Findings
pub mod Most
pub mod Others
pub mod Capacities
pub mod Calls
pub mod Kept
pub mod Accepting
pub mod Classes
pub mod Stated
pub mod Wanted
pub mod Identities
pub mod Stating
pub mod Stacks
pub mod Attached
pub mod Once
pub mod Leaks
pub mod LeakOrder
pub mod Turns
pub mod Refusals
pub mod Envs
pub mod Rooms
pub mod Replies
pub mod Report
pub mod Cut
pub mod ShutOut
pub mod Worked
mod Cases
mod ShutOutCases
mod StepCases
mod CallCases
mod ReturnCases
mod CapacityCases
mod JudgedCases
mod WideCases
mod RefusedCases
mod LineCases
mod LimitCases
mod AgainCases
mod LeakCases
mod ClassCases
mod IdentityCases
mod AttachedCases
mod DetachedCases
