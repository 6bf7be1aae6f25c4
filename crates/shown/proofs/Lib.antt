mod Known
mod Read
mod Computed
