mod Lines
mod Unlike
