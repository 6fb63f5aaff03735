-- Numbers as texts: an optional sign, and ASCII digits.
use Rattle.std.specs.Prelude.{◌≡◌, ℕ, ℤ, pos, neg_ℤ, List, [], ◌++◌, codes}
use Rattle.std.specs.Str.Parse.{IsNumeral, digits_value}

-- a sign, or none
pub data Sign : Type 0 where
  unsigned : Sign
  plus : Sign
  minus : Sign

-- how a sign is written
abbrev pub sign_text : Sign → List ℕ
sign_text unsigned = []
sign_text plus = codes "+"
sign_text minus = codes "-"

-- the number that a sign makes of another
abbrev pub signed_number : Sign → ℕ → ℤ
signed_number minus number = neg_ℤ (pos number)
signed_number _ number = pos number

-- the text is an optional sign and one or more ASCII digits, and these write this number
pub record IsNumberText (text : List ℕ) (number : ℤ) : Type 0 where
  pub sign : Sign
  pub digits : List ℕ
  pub whole : text ≡ sign_text sign ++ digits
  pub numeral : IsNumeral 10 digits
  pub value : number ≡ signed_number sign (digits_value 10 digits)
