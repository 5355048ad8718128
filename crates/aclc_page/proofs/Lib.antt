mod Naming
mod Handing
mod Rowing
