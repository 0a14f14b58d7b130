mod Called
mod Listing
mod Orderings
