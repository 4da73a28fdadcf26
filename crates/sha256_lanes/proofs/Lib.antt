mod Blocks
mod PaddingSchedule
mod Pairs
