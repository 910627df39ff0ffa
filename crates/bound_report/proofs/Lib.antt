mod Agree
mod Lines
mod Sections
