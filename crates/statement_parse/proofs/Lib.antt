mod Arms
mod Items
mod Pushed
