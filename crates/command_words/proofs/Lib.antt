mod Adding
mod NumberWords
