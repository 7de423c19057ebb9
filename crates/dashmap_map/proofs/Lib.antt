mod Amounts
mod Putting
mod Lists
mod Rooms
mod Slices
mod AtKeys
mod Turns
