mod Digits
mod Commands
