mod Runs
mod Stepped
mod Answered
