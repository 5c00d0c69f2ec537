-- The letters of words, by their bytes, and the place of a letter in the alphabet.
use Rattle.std.specs.Prelude.{ℕ, ◌-◌}

abbrev pub letter_a : ℕ
letter_a = 65

abbrev pub letter_b : ℕ
letter_b = 66

abbrev pub letter_d : ℕ
letter_d = 68

abbrev pub letter_g : ℕ
letter_g = 71

abbrev pub letter_i : ℕ
letter_i = 73

abbrev pub letter_j : ℕ
letter_j = 74

abbrev pub letter_k : ℕ
letter_k = 75

abbrev pub letter_m : ℕ
letter_m = 77

abbrev pub letter_n : ℕ
letter_n = 78

abbrev pub letter_p : ℕ
letter_p = 80

abbrev pub letter_q : ℕ
letter_q = 81

abbrev pub letter_t : ℕ
letter_t = 84

abbrev pub letter_u : ℕ
letter_u = 85

abbrev pub letter_v : ℕ
letter_v = 86

abbrev pub letter_w : ℕ
letter_w = 87

abbrev pub letter_x : ℕ
letter_x = 88

abbrev pub letter_y : ℕ
letter_y = 89

-- A is 0
abbrev pub index_of : ℕ → ℕ
index_of letter = letter - letter_a
