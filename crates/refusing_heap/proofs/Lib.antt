mod Counting
mod Handing
mod Running
