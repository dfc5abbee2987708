-- Heard: the laws that both readings have.      Parted: what was read, as a part, and what a caller goes by.
-- Whole: the parts, one after another, are all.      Running: part after part, and what is told of an item.
-- Joined: the octets of recordings one after another.      Onward: a file window by window.
-- Headings: a file that is a recording has its heading.
pub mod Heard
pub mod Parted
pub mod Whole
pub mod Running
pub mod Joined
pub mod Onward
pub mod Headings
pub mod Wells
