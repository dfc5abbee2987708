-- LAW, SET and a frame length that is none of the five refuse before any frame; else it goes frame after frame.
use Prim.Native.Nat.{ℕ}
use mathlib.Core.Path.{◌≡◌, refl, sym, subst}
use mathlib.Core.List.{List}
use mathlib.Core.Bool.{true, false}
use Rattle.rules.specs.declared.Refusal.{Refusal}
use Rattle.rules.specs.declared.Refusal.TheVariants.{Length}
use Rattle.std.proofs.Common.{Err}
use Rattle.rules.specs.Refusals.{verdict}
use Rattle.rules.specs.Tools.{is_law, is_writer_set, is_length, writer_asks}
use Rattle.rules.proofs.Guards.{verdict-refused}
use Rattle.tool_packing.specs.declared.packing.PackAnswer.{PackAnswer}
use Rattle.tool_packing.specs.Cuts.{cuts, sound_in, end_of}
use Rattle.tool_packing.specs.Packing.{stream_of, Packed, halted, put_all, pack_all, Packs}
use Rattle.tool_packing.specs.Parts.{StopsAtOnce}

-- no frame is packed, and the output is as lent
pub stops : {why : Refusal} {r : PackAnswer} → StopsAtOnce why r → (law set : ℕ) (p : Packed) → halted (Err why) ≡ p
    → (out : List ℕ) → Packs law set p r out out
unfolding sound_in stream_of
stops {why} {r} s law set p e out =
    subst (λ (p : Packed). Packs law set p r out out) e
    (record { end = s.end; frames = s.frames; samples = s.samples; octets = s.octets; lent = refl })

-- an answer is one of an equal packing
pub packs-as : {law set : ℕ} {p q : Packed} {r : PackAnswer} {out out' : List ℕ} → p ≡ q → Packs law set p r out out'
    → Packs law set q r out out'
packs-as {law} {set} {r = r} {out = out} {out' = out'} e t = subst (λ (p : Packed). Packs law set p r out out') e t

module _ (sound : List ℕ) (law set n room : ℕ) where
  pub refuses : {why : Refusal} → verdict (writer_asks law set) ≡ Err why → halted (Err why) ≡ pack_all sound law set n room
  unfolding pack_all
  refuses e = sym (verdict-refused (λ why. halted (Err why)) _ (writer_asks law set) e)

  pub no_length : is_law law ≡ true → is_writer_set set ≡ true → is_length n ≡ false → halted (Err Length) ≡ pack_all sound law set n room
  unfolding pack_all
  no_length g h k = rw (g, h, k)

  pub the-frames : is_law law ≡ true → is_writer_set set ≡ true → is_length n ≡ true
      → put_all law set room (cuts n sound) (end_of n sound) ≡ pack_all sound law set n room
  unfolding pack_all
  the-frames g h k = rw (g, h, k)
