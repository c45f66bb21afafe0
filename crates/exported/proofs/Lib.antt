mod Fronts
mod Answered
mod Judging
mod Listing
mod Piecing
mod Reasons
