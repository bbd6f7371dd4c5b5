-- prefix_nal_unit_svc( ), 7.3.2.12.1, with dec_ref_base_pic_marking( ). Nothing behind the additional flag is read.
use Rattle.std.specs.Prelude.{Bool, true, false, not, ◌&&◌, ◌||◌}
use Rattle.fmt.specs.Fmt.{Fmt, seq, shaped}
use Rattle.syntax.specs.Marks.{flag_if}
use Rattle.syntax.specs.Lists.{Kind, operations_if}
use Rattle.syntax.specs.declared.context.PrefixKind.{PrefixKind}
use Rattle.syntax.specs.declared.record.Prefix.{Prefix}

abbrev pub base_marking_kind : Kind
base_marking_kind = record { closing = 0; greatest = 2; number = 23; has_first = λ c. true; has_second = λ c. false }

-- dec_ref_base_pic_marking( ) is there
unfoldable pub has_base_marking : PrefixKind → (store-ref-base-pic-flag : Bool) → Bool
has_base_marking k store-ref-base-pic-flag = k.there && ((k.use_ref_base_pic_flag || store-ref-base-pic-flag) && not k.idr_flag)

unfoldable pub prefix : PrefixKind → Fmt Prefix
prefix k =
    shaped
    (λ v.
    record {
      store_ref_base_pic_flag = v.0;
      adaptive_ref_base_pic_marking_mode_flag = v.1.0;
      base_marking = v.1.1.0;
      additional_prefix_nal_unit_extension_flag = v.1.1.1;
    })
    (λ p. (
      p.store_ref_base_pic_flag,
      (p.adaptive_ref_base_pic_marking_mode_flag, (p.base_marking, p.additional_prefix_nal_unit_extension_flag)),
    ))
    (λ p. true)
    (seq (flag_if k.there) (λ store-ref-base-pic-flag.
    seq (flag_if (has_base_marking k store-ref-base-pic-flag.value)) (λ adaptive-ref-base-pic-marking-mode-flag.
    seq (operations_if adaptive-ref-base-pic-marking-mode-flag.value base_marking_kind) (λ base-marking.
    flag_if k.there))))
