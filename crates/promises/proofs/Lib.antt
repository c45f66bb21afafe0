mod Lines
mod Steps
mod Leaks
mod Kept
