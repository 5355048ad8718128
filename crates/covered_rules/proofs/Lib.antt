mod Asking
mod Choosing
mod Copying
mod Covering
mod Fields
mod Keeping
mod Staying
