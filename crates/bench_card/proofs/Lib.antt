mod Copies
mod Cards
