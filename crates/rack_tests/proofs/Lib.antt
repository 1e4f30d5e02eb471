mod Counting
mod Numbered
mod OneFrame
