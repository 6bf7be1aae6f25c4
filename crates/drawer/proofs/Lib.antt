mod Sets
mod Sorted
mod Counted
mod Peels
mod Peaks
mod Written
mod Drawn
