mod Blessed
mod Checked
mod Explained
mod InMemory
mod Parsed
mod Served
mod Shown
mod Suites
