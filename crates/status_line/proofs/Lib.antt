mod Cutting
mod LineRows
