-- The header's format in the stages of the code, once its sets are known, and how its bytes go out. They are the code's own: the contract of writing the header
-- does not name them.
use Rattle.std.specs.Prelude.{ℕ, List, Bool, ◌&&◌, eqb, leb, pos, length, take}
use Rattle.bits.specs.Refusals.{pick, refusal, buffer_too_short}
use Rattle.bits.specs.Put.{written, bytes_for}
use Rattle.fmt.specs.Fmt.{Fmt, seq}
use Rattle.fmt.specs.Leaves.{ue}
use Rattle.escape.specs.Body.{start_with}
use Rattle.syntax.specs.declared.context.Context.{Context}
use Rattle.syntax.specs.declared.record.Modifications.{Modifications}
use Rattle.syntax.specs.declared.record.PredWeightTable.{PredWeightTable}
use Rattle.syntax.specs.declared.record.DecRefPicMarking.{DecRefPicMarking}
use Rattle.syntax.specs.declared.record.Quantiser.{Quantiser}
use Rattle.syntax.specs.declared.record.Filter.{Filter}
use Rattle.syntax.specs.declared.record.SliceHeader.{SliceHeader}
use Rattle.syntax.specs.SliceHeader.{slice_type, modifications, pred_weight_table, dec_ref_pic_marking, quantiser, filter, Parts, parts, of_header}
use Rattle.header.specs.Short.{HeaderWords}
use Rattle.record.specs.Record.{header_from, plain}
use Rattle.writer.specs.Write.{HeaderOut, untouched, out_of}
use Rattle.std.specs.Prelude.{Ok}

-- first_mb_in_slice, slice_type, and a pic_parameter_set_id that has been looked up
abbrev pub known_lead : Fmt (ℕ × (ℕ × ℕ))
known_lead = seq ue (λ first-mb-in-slice. seq slice_type (λ k. ue))

module _ (x : Context) (k : ℕ) where
  -- cabac_init_idc to slice_group_change_cycle
  abbrev pub back : Fmt (Quantiser × Filter)
  back = seq (quantiser x k) (λ q. filter x)

  -- ref_pic_list_modification( ) and all that follows it, for lists of n0 and n1 references
  abbrev pub middle : ℕ → ℕ → Fmt (Modifications × (PredWeightTable × (DecRefPicMarking × (Quantiser × Filter))))
  middle n0 n1 = seq (modifications x k) (λ m. seq (pred_weight_table x k n0 n1) (λ w. seq (dec_ref_pic_marking x) (λ d. back)))

abbrev pub fields : Context → Fmt ((ℕ × (ℕ × ℕ)) × Parts)
fields x = seq known_lead (λ l. parts x l.1.0)

-- a record's fields written, its sets known
unfoldable pub fields_out : Context → SliceHeader → List ℕ → HeaderOut
fields_out x h out = out_of (written ((fields x).good (of_header h)) ((fields x).bits (of_header h)) out 0)

abbrev pub is_known : Context → SliceHeader → Bool
is_known x h = eqb h.seq_parameter_set_id x.picture.seq_parameter_set_id && (fields x).good (of_header h)

-- the header that words hold, written, its sets known
unfoldable pub known_out : Context → HeaderWords → List ℕ → HeaderOut
known_out x w out = out_of (written (plain w && is_known x (header_from w)) ((fields x).bits (of_header (header_from w))) out 0)

-- the bytes of the first n bits of d go to the front of the buffer: 26 where there is no room for them
unfoldable pub copied : List ℕ → ℕ → List ℕ → HeaderOut
copied d n out =
    pick (leb (bytes_for n) (length out)) (record { answer = Ok n; left = start_with (take (bytes_for n) d) out })
    (untouched (refusal buffer_too_short (pos (bytes_for n))) out)
