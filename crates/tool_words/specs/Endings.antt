-- The endings of names, as octets.
use Rattle.std.specs.Prelude.{ℕ, List, [], ◌∷◌}

-- raw sound: mu-law, then A-law
abbrev pub ul8 : List ℕ
ul8 = 0x75 ∷ 0x6C ∷ 0x38 ∷ []

abbrev pub mu8 : List ℕ
mu8 = 0x6D ∷ 0x75 ∷ 0x38 ∷ []

abbrev pub mu : List ℕ
mu = 0x6D ∷ 0x75 ∷ []

abbrev pub al8 : List ℕ
al8 = 0x61 ∷ 0x6C ∷ 0x38 ∷ []

abbrev pub al : List ℕ
al = 0x61 ∷ 0x6C ∷ []

-- streams of frames
abbrev pub lcm : List ℕ
lcm = 0x6C ∷ 0x63 ∷ 0x6D ∷ []

abbrev pub lca : List ℕ
lca = 0x6C ∷ 0x63 ∷ 0x61 ∷ []

-- sound that was unpacked
abbrev pub muo : List ℕ
muo = 0x6D ∷ 0x75 ∷ 0x6F ∷ []

abbrev pub alo : List ℕ
alo = 0x61 ∷ 0x6C ∷ 0x6F ∷ []
