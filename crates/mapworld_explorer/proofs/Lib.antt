mod Courses
mod Leading
mod Searching
mod Telling
