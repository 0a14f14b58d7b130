mod Seating
mod Writing
