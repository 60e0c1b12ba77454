-- `TakenLaws`: what the single-link call answers, in numbers.
mod TakenLaws
