mod Drawing
mod Listing
mod Returned
