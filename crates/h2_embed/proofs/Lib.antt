mod AsBox
mod BookLaws
mod Feeding
mod Making
