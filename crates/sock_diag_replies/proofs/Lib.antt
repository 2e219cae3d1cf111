mod FirstFound
mod ErrorTest
mod Owning
