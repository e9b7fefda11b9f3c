-- The code of Appendix B: each octet's bits, and those of the end of a string (RFC 7541, Appendix B).
use Rattle.std.specs.Prelude.{ℕ, zero, suc, ◌+◌, ◌*◌, ◌/◌, ◌%◌, ◌^◌, ◌-◌, Bool, true, false, ◌&&◌, List, [], ◌∷◌, ◌++◌, length, nat_lt, nat_eq}

-- the codes of one length: how many bits, the first code, and the symbols in the order of their codes
pub record CodeRow : Type 0 where
  pub bits : ℕ
  pub first : ℕ
  pub symbols : List ℕ

-- the codes of one length: how many bits, the first code, and the symbols in their order
abbrev pub code_row : ℕ → ℕ → List ℕ → CodeRow
code_row bits first symbols = record { bits = bits; first = first; symbols = symbols }

-- the code of Appendix B: 256 octets, and the symbol 256 for the end of a string
unfoldable pub code_rows : List CodeRow
code_rows =
    code_row 5 0x0 (48 ∷ 49 ∷ 50 ∷ 97 ∷ 99 ∷ 101 ∷ 105 ∷ 111 ∷ 115 ∷ 116 ∷ []) ∷
    code_row 6 0x14 (32 ∷ 37 ∷ 45 ∷ 46 ∷ 47 ∷ 51 ∷ 52 ∷ 53 ∷ 54 ∷ 55 ∷ 56 ∷ 57 ∷ 61 ∷ 65 ∷ 95 ∷ 98 ∷ 100 ∷ 102 ∷ 103 ∷ 104 ∷
    108 ∷ 109 ∷ 110 ∷ 112 ∷ 114 ∷ 117 ∷ []) ∷
    code_row 7 0x5c (58 ∷ 66 ∷ 67 ∷ 68 ∷ 69 ∷ 70 ∷ 71 ∷ 72 ∷ 73 ∷ 74 ∷ 75 ∷ 76 ∷ 77 ∷ 78 ∷ 79 ∷ 80 ∷ 81 ∷ 82 ∷ 83 ∷ 84 ∷
    85 ∷ 86 ∷ 87 ∷ 89 ∷ 106 ∷ 107 ∷ 113 ∷ 118 ∷ 119 ∷ 120 ∷ 121 ∷ 122 ∷ []) ∷
    code_row 8 0xf8 (38 ∷ 42 ∷ 44 ∷ 59 ∷ 88 ∷ 90 ∷ []) ∷
    code_row 10 0x3f8 (33 ∷ 34 ∷ 40 ∷ 41 ∷ 63 ∷ []) ∷
    code_row 11 0x7fa (39 ∷ 43 ∷ 124 ∷ []) ∷
    code_row 12 0xffa (35 ∷ 62 ∷ []) ∷
    code_row 13 0x1ff8 (0 ∷ 36 ∷ 64 ∷ 91 ∷ 93 ∷ 126 ∷ []) ∷
    code_row 14 0x3ffc (94 ∷ 125 ∷ []) ∷
    code_row 15 0x7ffc (60 ∷ 96 ∷ 123 ∷ []) ∷
    code_row 19 0x7fff0 (92 ∷ 195 ∷ 208 ∷ []) ∷
    code_row 20 0xfffe6 (128 ∷ 130 ∷ 131 ∷ 162 ∷ 184 ∷ 194 ∷ 224 ∷ 226 ∷ []) ∷
    code_row 21 0x1fffdc (153 ∷ 161 ∷ 167 ∷ 172 ∷ 176 ∷ 177 ∷ 179 ∷ 209 ∷ 216 ∷ 217 ∷ 227 ∷ 229 ∷ 230 ∷ []) ∷
    code_row 22 0x3fffd2 (129 ∷ 132 ∷ 133 ∷ 134 ∷ 136 ∷ 146 ∷ 154 ∷ 156 ∷ 160 ∷ 163 ∷ 164 ∷ 169 ∷ 170 ∷ 173 ∷ 178 ∷ 181 ∷ 185 ∷
    186 ∷ 187 ∷ 189 ∷ 190 ∷ 196 ∷ 198 ∷ 228 ∷ 232 ∷ 233 ∷ []) ∷
    code_row 23 0x7fffd8 (1 ∷ 135 ∷ 137 ∷ 138 ∷ 139 ∷ 140 ∷ 141 ∷ 143 ∷ 147 ∷ 149 ∷ 150 ∷ 151 ∷ 152 ∷ 155 ∷ 157 ∷ 158 ∷ 165 ∷
    166 ∷ 168 ∷ 174 ∷ 175 ∷ 180 ∷ 182 ∷ 183 ∷ 188 ∷ 191 ∷ 197 ∷ 231 ∷ 239 ∷ []) ∷
    code_row 24 0xffffea (9 ∷ 142 ∷ 144 ∷ 145 ∷ 148 ∷ 159 ∷ 171 ∷ 206 ∷ 215 ∷ 225 ∷ 236 ∷ 237 ∷ []) ∷
    code_row 25 0x1ffffec (199 ∷ 207 ∷ 234 ∷ 235 ∷ []) ∷
    code_row 26 0x3ffffe0 (192 ∷ 193 ∷ 200 ∷ 201 ∷ 202 ∷ 205 ∷ 210 ∷ 213 ∷ 218 ∷ 219 ∷ 238 ∷ 240 ∷ 242 ∷ 243 ∷ 255 ∷ []) ∷
    code_row 27 0x7ffffde (203 ∷ 204 ∷ 211 ∷ 212 ∷ 214 ∷ 221 ∷ 222 ∷ 223 ∷ 241 ∷ 244 ∷ 245 ∷ 246 ∷ 247 ∷ 248 ∷ 250 ∷ 251 ∷ 252 ∷
    253 ∷ 254 ∷ []) ∷
    code_row 28 0xfffffe2 (2 ∷ 3 ∷ 4 ∷ 5 ∷ 6 ∷ 7 ∷ 8 ∷ 11 ∷ 12 ∷ 14 ∷ 15 ∷ 16 ∷ 17 ∷ 18 ∷ 19 ∷ 20 ∷ 21 ∷ 23 ∷ 24 ∷ 25 ∷ 26 ∷ 27 ∷
    28 ∷ 29 ∷ 30 ∷ 31 ∷ 127 ∷ 220 ∷ 249 ∷ []) ∷
    code_row 30 0x3ffffffc (10 ∷ 13 ∷ 22 ∷ 256 ∷ []) ∷ []

-- the symbol that ends a string, EOS
abbrev pub end_of_string : ℕ
end_of_string = 256

-- the low bits of a number, this many, the highest first; true is 1
unfoldable pub bits_of : ℕ → ℕ → List Bool
bits_of zero n = []
bits_of (suc count) n = bits_of count (n / 2) ++ nat_eq (n % 2) 1 ∷ []

-- symbols whose codes have this many bits and count up from the first, each with its code, before others
abbrev pub with_codes : ℕ → ℕ → List ℕ → List (ℕ × List Bool) → List (ℕ × List Bool)
with_codes bits first [] others = others
with_codes bits first (s ∷ ss) others = (s, bits_of bits first) ∷ with_codes bits (suc first) ss others

-- the codes of all rows, each with its symbol
abbrev pub codes_of_rows : List CodeRow → List (ℕ × List Bool)
codes_of_rows [] = []
codes_of_rows (r ∷ rs) = with_codes r.bits r.first r.symbols (codes_of_rows rs)

-- each symbol with its code, the shortest first
unfoldable pub code_table : List (ℕ × List Bool)
unfolding code_rows bits_of
code_table = codes_of_rows code_rows

-- the code that is beside a symbol
abbrev pub code_among : List (ℕ × List Bool) → ℕ → List Bool
code_among [] s = []
code_among (c ∷ cs) s = elim (nat_eq c.0 s) [ true ↦ c.1 | false ↦ code_among cs s ]

-- the code of a symbol
unfoldable pub code : ℕ → List Bool
unfolding code_table
code s = code_among code_table s

-- symbols are in rising order
abbrev pub are_rising : List ℕ → Bool
are_rising [] = true
are_rising (s ∷ []) = true
are_rising (s ∷ t ∷ ss) = nat_lt s t && are_rising (t ∷ ss)

-- the canonical rule for the rows from this length and code on: codes rise by one with the symbol, the first code of a
-- longer length is the next number with zeros after it, and after the last code no number of its length is left
abbrev pub are_canonical : ℕ → ℕ → List CodeRow → Bool
are_canonical bits next [] = nat_eq next (2 ^ bits)
are_canonical bits next (r ∷ rs) =
    nat_lt bits r.bits && nat_eq r.first (next * 2 ^ (r.bits - bits)) && are_rising r.symbols && are_canonical r.bits (r.first + length r.symbols) rs
