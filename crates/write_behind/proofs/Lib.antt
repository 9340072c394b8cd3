mod Helds
mod Drains
mod Layers
mod Orders
