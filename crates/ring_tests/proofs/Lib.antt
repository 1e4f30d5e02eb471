mod Ends
mod Rows
