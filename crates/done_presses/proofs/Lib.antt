mod Popped
mod Steps
