mod AnswerWords
mod NextDigits
