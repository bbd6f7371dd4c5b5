-- Tidy words: a header that is read is laid over zeros, and the words are tidy again.
use Prim.Native.Nat.{ℕ}
use mathlib.Core.Path.{◌≡◌, refl, ap}
use mathlib.Core.Bool.{Bool, true, false}
use lib.Dec.{T}
use Rattle.bits.specs.Bits.{Bits}
use Rattle.bits.specs.Refusals.{got}
use Rattle.fmt.specs.Fmt.{when, shaped}
use Rattle.fmt.specs.Arrays.{padded}
use Rattle.fmt.proofs.Lawful.{both-0, both-1}
use Rattle.table.specs.declared.table.Table.{Table}
use Rattle.syntax.specs.declared.context.UnitKind.{UnitKind}
use Rattle.syntax.specs.declared.record.Operations.{Operations}
use Rattle.syntax.specs.declared.record.Modification.{Modification}
use Rattle.syntax.specs.declared.record.WeightList.{WeightList}
use Rattle.syntax.specs.declared.record.SliceHeader.{SliceHeader}
use Rattle.syntax.specs.Marks.{given, is_zero}
use Rattle.syntax.specs.Lists.{Kind, ok_operations, operations, operations_if}
use Rattle.syntax.specs.SliceHeader.{is_no_weight, modification, modifications, weight_list, pred_weight_table, dec_ref_pic_marking, parts, header, read_header}
use Rattle.syntax.proofs.Goods.{seq-first, seq-rest, shaped-ok, shaped_from}
use Rattle.syntax.proofs.Header.{rewrites}
use Rattle.weights.specs.Counts.{at_most32}
use Rattle.lists.specs.ListsLent.{at_most66, emptied_list}
use Rattle.weights.specs.WeightsLent.{emptied_weights}
use Rattle.lists.proofs.Tidy.{list-padded, list-emptied}
use Rattle.weights.proofs.Tidy.{weights-padded, weights-emptied}
use Rattle.header.specs.Short.{HeaderWords, numbers_of, emptied, header_in, zeros, Tidy, header_alone}

-- ---- what is read is in order: its counts fit, and its unused entries are zero

pub operations_if-ok : (b : Bool) (k : Kind) (o : Operations) → T ((operations_if b k).good o) → T (ok_operations o)
unfolding operations_if operations given when shaped
operations_if-ok true k o t = both-0 (ok_operations o) _ t
operations_if-ok false k o t = both-1 (is_zero o.count) (ok_operations o) t

modification-ok : (mvc there : Bool) (m : Modification) → T ((modification mvc there).good m) → T (ok_operations m.operations)
unfolding modification
modification-ok mvc there m t = operations_if-ok _ _ m.operations (seq-rest _ _ _ (shaped_from _ _ _ _ m t))

weight_list-ok : (chroma : Bool) (n : ℕ) (w : WeightList) → T ((weight_list chroma n).good w) → T (padded is_no_weight 32 w.count w.entries)
unfolding weight_list
weight_list-ok chroma n w t = shaped-ok _ _ _ _ w t

pub record InOrder (h : SliceHeader) : Type 0 where
  pub l0 : T (ok_operations h.modifications.l0.operations)
  pub l1 : T (ok_operations h.modifications.l1.operations)
  pub marking : T (ok_operations h.dec_ref_pic_marking.operations)
  pub w0 : T (padded is_no_weight 32 h.pred_weight_table.l0.count h.pred_weight_table.l0.entries)
  pub w1 : T (padded is_no_weight 32 h.pred_weight_table.l1.count h.pred_weight_table.l1.entries)

module _ (t : Table) (n : UnitKind) where
  pub good-in-order : (h : SliceHeader) → T ((header t n).good h) → InOrder h
  unfolding header parts modifications pred_weight_table dec_ref_pic_marking
  good-in-order h g =
      let p = seq-rest _ _ _ (seq-rest _ _ _ (seq-rest _ _ _ (seq-rest _ _ _ (shaped_from _ _ _ _ h g)))) in
      let q = seq-rest _ _ _ p in
      let m = seq-rest _ _ _ (shaped_from _ _ _ _ _ (seq-first _ _ _ p)) in
      let w = seq-rest _ _ _ (seq-rest _ _ _ (shaped_from _ _ _ _ _ (seq-first _ _ _ q))) in
      let d = seq-rest _ _ _ (seq-rest _ _ _ (seq-rest _ _ _ (shaped_from _ _ _ _ _ (seq-first _ _ _ (seq-rest _ _ _ q))))) in
      record {
        l0 = modification-ok _ _ _ (seq-first _ _ _ m);
        l1 = modification-ok _ _ _ (seq-rest _ _ _ m);
        marking = operations_if-ok _ _ _ d;
        w0 = weight_list-ok _ _ _ (seq-first _ _ _ w);
        w1 = weight_list-ok _ _ _ (seq-rest _ _ _ w);
      }

  pub read-in-order : (s : Bits) (h : SliceHeader) (e : ℕ) → read_header t n s ≡ got h e → InOrder h
  read-in-order s h e r = good-in-order h (rewrites t n s h e r).is-good

-- ---- tidy words

pub zeros-tidy : Tidy zeros
unfolding Tidy emptied emptied_list emptied_weights at_most66 at_most32
zeros-tidy = refl

-- a header over tidy words stands over zeros
pub tidy-over : (h : SliceHeader) (b : HeaderWords) → Tidy b → header_in h (emptied b) ≡ header_in h zeros
unfolding Tidy
tidy-over h b t = ap (header_in h) t

module _ (h : SliceHeader) (o : InOrder h) where
  pub header-alone : header_in h zeros ≡ header_alone h
  header-alone = rw (list-padded _ o.l0, list-padded _ o.l1, list-padded _ o.marking, weights-padded _ o.w0, weights-padded _ o.w1)

  pub header-tidy : Tidy (header_in h zeros)
  unfolding Tidy emptied numbers_of
  header-tidy = rw (list-emptied _ o.l0, list-emptied _ o.l1, list-emptied _ o.marking, weights-emptied _ o.w0, weights-emptied _ o.w1)
